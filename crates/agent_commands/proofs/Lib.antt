pub mod PlayAnswers
pub mod RunAnswers
pub mod RestartAnswers
pub mod GenerateAnswers
pub mod ServeAnswers
pub mod OneServing
