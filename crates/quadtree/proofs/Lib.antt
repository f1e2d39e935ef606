pub mod SomeSides
pub mod RenewedSays
