pub mod CallLocks
pub mod AllLocks
pub mod LockOwners
pub mod LockTables
