pub mod AnyTile
pub mod DotLaw
pub mod Tile
