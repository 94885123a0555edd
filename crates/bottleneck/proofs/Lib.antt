mod Twins
mod Parts
mod Loose
mod Places
mod Differing
mod Greatest
mod LeastWeights
mod Ranges
