-- Header compression (RFC 7541).
pub mod Block
pub mod DynamicTable
pub mod Field
pub mod Huffman
pub mod HuffmanCode
pub mod Instruction
pub mod Integer
pub mod StaticTable
