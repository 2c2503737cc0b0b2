mod AsBox
mod AsDraft
mod PeekSteps
