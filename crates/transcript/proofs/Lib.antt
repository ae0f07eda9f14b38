mod AnswerLaws
mod PieceLaws
mod ScriptLaws
