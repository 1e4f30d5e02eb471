pub mod Frame
pub mod Front
pub mod Packbits
pub mod Packet
pub mod PacketCursor
pub mod Unpacker
pub mod WholePackets
