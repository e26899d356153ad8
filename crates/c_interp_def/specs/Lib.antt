pub mod Configurations
pub mod ExprTasks
pub mod StmtTasks
pub mod Laws
pub mod CallLaws
