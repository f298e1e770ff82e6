-- The laws of the copying, which several proofs share.
pub mod Laws
