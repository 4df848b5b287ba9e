-- Laws only. The definitions are in `charge`.
pub mod Laws
