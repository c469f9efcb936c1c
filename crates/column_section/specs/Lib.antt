pub mod Column
pub mod ColumnLaws
pub mod Readings
