mod Chains
mod Ip4Packets
mod Ip6Packets
mod Keys
