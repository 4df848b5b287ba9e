-- What input, commit and settle take and leave, once deck, pool and state are tested.
pub mod Tested
pub mod Laws
