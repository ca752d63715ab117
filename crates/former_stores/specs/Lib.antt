pub mod Former
pub mod Laying
