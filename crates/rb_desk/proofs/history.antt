-- No number is lost: the journal accounts for each.
pub mod HavingLaws
pub mod Accounts
pub mod CallAccounts
pub mod Histories
