mod Advanced
pub mod AllAround
mod Answered
pub mod Around
mod Asked
mod ChoiceLaws
mod Combined
mod CombinedRows
mod Combining
mod Counted
pub mod Decodable
pub mod Decoding
mod Digits
mod Division
mod DownTo
mod Encodable
mod EncodableAll
mod Factor
mod FewRows
mod Filled
mod FirstRoots
mod Homomorphism
mod Horner
mod Interpolated
mod Lagrange
mod LaidLaws
mod Lent
mod Made
mod Numbers
mod Padded
mod PowerChoices
mod Ring
mod Rising
mod Roots
mod Single
mod Spreading
mod SubsetLaws
mod Sums
mod Tabled
pub mod Theorems
mod Value
mod Written
