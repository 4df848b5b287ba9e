-- The laws of the definitions of `charge`, and their cases.
pub mod Cases
pub mod Laws
