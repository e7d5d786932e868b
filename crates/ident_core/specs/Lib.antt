pub mod SerialFields
pub mod Order
pub mod Coverage
pub mod HeadFields
pub mod RangeLayout
pub mod RangeText
pub mod Among
pub mod Sets
