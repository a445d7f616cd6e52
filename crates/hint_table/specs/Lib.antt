pub mod HintNames
