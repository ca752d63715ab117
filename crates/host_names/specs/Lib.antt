pub mod HostNames
