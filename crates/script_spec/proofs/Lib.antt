mod Words
pub mod CallTableLaws
pub mod NumeralLaws
pub mod TextLaws
pub mod Common
