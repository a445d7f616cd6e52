mod Words
mod TopLaws
mod FaultLaws
