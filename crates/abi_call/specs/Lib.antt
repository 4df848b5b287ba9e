-- What the calls for C return and leave behind the pointers that they are lent.
pub mod Returned
pub mod Laws
