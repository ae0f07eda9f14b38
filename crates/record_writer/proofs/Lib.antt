mod BackLaws
