pub mod Marks
pub mod LineByLine
