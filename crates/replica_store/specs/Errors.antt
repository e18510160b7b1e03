-- How a replica reports what the database answered.
use Rattle.std.specs.Prelude.{Result, Ok, Err}
use Rattle.sqlite.specs.declared.error.ErrorCode.TheVariants.{OutOfMemory}
use Rattle.sqlite.specs.declared.error.Error.{Error}
use Rattle.sqlite.specs.declared.error.Error.TheVariants.{SqliteFailure}
use Rattle.replica_store.specs.declared.error.ReplicaError.{ReplicaError}
use Rattle.replica_store.specs.declared.error.ReplicaError.TheVariants.{Store, Memory}

-- out of memory is `Memory`, and each other error of the database `Store`
abbrev pub replica_error : Error → ReplicaError
replica_error (SqliteFailure OutOfMemory) = Memory
replica_error _ = Store

abbrev pub reported_result : {A : Type 0} → Result A Error → Result A ReplicaError
reported_result (Ok value) = Ok value
reported_result (Err error) = Err (replica_error error)
