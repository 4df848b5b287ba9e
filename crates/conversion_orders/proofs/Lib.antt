-- The laws of the definitions of `conversion_orders`, and their cases.
pub mod Cases
pub mod Laws
