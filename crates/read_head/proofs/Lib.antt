-- What a frame's first octets tell, as the code goes: Headed. That a reading agrees with it: Heads.
pub mod Headed
pub mod Heads
