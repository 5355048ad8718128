mod Lines
mod Mirroring
mod OneKey
mod ReadValues
mod Verdicts
