-- the script of an input: reads and replies
pub mod Script
-- the key table: the event of each key and mouse action
pub mod KeyTable
-- the script of a `TestingInput`
pub mod TestingInput
-- the script of a `ScriptInput`
pub mod ScriptInput
-- the store of screens
pub mod Store
-- the contents of a store from its fields
pub mod StoreView
