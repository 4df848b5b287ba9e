-- The laws of the definitions of `pool_holes`, and their cases.
pub mod Laws
