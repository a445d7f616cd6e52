mod Words
pub mod Capping
mod EndLaws
pub mod Soundness
pub mod WrittenLengths
pub mod CountedSound
pub mod ElementPlaces
mod Searches
pub mod CreatedFiles
mod LaidKept
pub mod LaidPlaces
pub mod LaidApart
mod LaidOut
pub mod LaidWritable
