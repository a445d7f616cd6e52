mod Words
mod VarLaws
mod ListLaws
mod DimLaws
mod DraftWordLaws
