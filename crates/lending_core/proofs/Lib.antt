mod Numbering
mod Each
mod Slices
