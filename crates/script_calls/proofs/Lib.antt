mod Words
mod CallLaws
mod MismatchLaws
mod CallWordLaws
mod LineOfCall
