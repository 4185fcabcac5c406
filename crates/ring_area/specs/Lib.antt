-- The contracts of ring_area cite the definitions of rules and ring_corners alone. Laws has what is proved of them, which are not needed to read them.
pub mod Laws
