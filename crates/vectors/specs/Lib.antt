pub mod RowsByLength
