pub mod SignedLemmas
pub mod FloatLemmas
pub mod NearLemmas
pub mod PlaceLemmas
pub mod RoomLemmas
pub mod SideLemmas
