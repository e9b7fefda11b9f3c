pub mod Web
pub mod Words
pub mod Token
