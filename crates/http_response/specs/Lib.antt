pub mod Response
pub mod Laws
