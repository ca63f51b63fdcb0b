-- What the commands in which agents or roles act answer; what private functions cite is last.
pub mod RunAnswer
pub mod RestartAnswer
pub mod GenerateAnswer
pub mod ServeAnswer
pub mod PlayedText
pub mod RestartedText
pub mod Answer
pub mod StageCount
pub mod inner
