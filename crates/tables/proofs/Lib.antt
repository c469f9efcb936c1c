mod Blocks
mod Digits
mod KeptRows
mod RowText
mod Spacing
