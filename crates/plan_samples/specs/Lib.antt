pub mod Stereos
