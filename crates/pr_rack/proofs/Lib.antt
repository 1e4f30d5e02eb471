pub mod OneSlot
pub mod Deliveries
