mod ClientLaws
mod Gathering
mod LinkLaws
mod NamesLaws
mod PlaceLaws
