-- What contracts of round trips cite.
pub mod Alike
pub mod ChangingPlaces
pub mod Listings
pub mod RoundTrip
