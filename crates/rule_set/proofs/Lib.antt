pub mod Offered
mod Among
mod Best
mod CategoryBits
mod Deciding
mod Fields
mod Keys
mod Lawful
mod Passing
mod Places
mod RankOrder
