pub mod Applied
pub mod Shifted
pub mod RisingSlabs
