-- The law of withdrawals: a withdrawal takes back its changeset and leaves what others did.
pub mod OneBack
pub mod KeyBack
pub mod Withdrawing
pub mod Admitting
pub mod Agreeing
