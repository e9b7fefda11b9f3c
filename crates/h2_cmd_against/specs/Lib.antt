pub mod Aims
pub mod Ends
pub mod Files
pub mod Program
pub mod Results
pub mod Servers
