-- what accepting gives
pub mod Preview
-- what accepting gives of a session of C
pub mod Calls
