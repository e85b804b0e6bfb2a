mod AsBox
mod AsJudgeBox
mod HeldValues
mod RefusedCalls
