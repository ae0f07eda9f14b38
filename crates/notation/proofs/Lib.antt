mod HexLaws
mod NumeralLaws
mod WordLaws
