mod InForce
mod Tables
