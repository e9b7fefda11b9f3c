pub mod Blessing
pub mod Commanding
pub mod Feeds
pub mod Gains
pub mod Going
pub mod Items
pub mod TextLaws
pub mod XmlGains
