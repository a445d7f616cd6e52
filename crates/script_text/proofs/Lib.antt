mod Words
mod Lexing
pub mod Lines
pub mod Numerals
pub mod PrintedValues
pub mod PrintedRegions
pub mod CallTokens
mod PrintedCalls
pub mod CallLines
mod PrintedAttributes
mod PrintedDefinitions
pub mod StatementLines
pub mod DefinedChains
pub mod KeptDefinitions
mod ReadWords
pub mod HintLines
mod ScriptLines
pub mod Whole
mod ExpressedDefinitions
pub mod Expressed
mod PrintingLaws
mod LineLengths
mod MadeLengths
mod MadeText
