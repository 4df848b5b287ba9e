-- Laws that the proofs of the functions cite.
pub mod Sets
pub mod Terms
pub mod Heights
pub mod Sums
pub mod Rows
pub mod Memos
pub mod Tabled
pub mod RowCharges
